pub mod RawBoxValues
