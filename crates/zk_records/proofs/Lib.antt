pub mod ConnectLemmas
pub mod OneConnect
pub mod StatLemmas
