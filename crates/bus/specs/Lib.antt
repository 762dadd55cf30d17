-- The bus: routes and speeds, accesses and their log, the world that an access changes, what the DMA unit sees.
pub mod Route
pub mod Access
pub mod World
pub mod View
pub mod Lent
