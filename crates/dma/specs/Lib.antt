-- The DMA unit: general transfers, the H-blank pass, one cycle of both.
pub mod General
pub mod Pass
pub mod Cycle
