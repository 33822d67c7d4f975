pub mod RingFacts
