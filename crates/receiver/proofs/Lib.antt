-- The laws of the definitions in specs/, and demand 3.
pub mod Modes
pub mod Turns
pub mod Cases
pub mod OneByte
pub mod Place
pub mod Simulation
pub mod NoiseOfStream
pub mod EverySeries
pub mod Reached
pub mod OneToOne
pub mod Callers
