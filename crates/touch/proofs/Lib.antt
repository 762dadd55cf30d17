pub mod Wmadd
