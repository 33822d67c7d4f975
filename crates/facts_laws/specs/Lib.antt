pub mod FactLaws
