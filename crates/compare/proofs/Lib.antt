-- The laws of the definitions in specs/.
pub mod ByteLaws
pub mod BlockLaws
pub mod MarkLaws
pub mod WholeLaws
pub mod Apart
pub mod Files
