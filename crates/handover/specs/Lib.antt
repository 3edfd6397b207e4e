-- 02 (i): how the wires feed the board.
pub mod Wire
