pub mod Backs
