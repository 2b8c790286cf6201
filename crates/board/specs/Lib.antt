pub mod Registers
pub mod Boards
pub mod Writes
pub mod Wires
pub mod Reads
