pub mod RawModel
