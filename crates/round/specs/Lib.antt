pub mod State
pub mod Key
pub mod RoundKeys
