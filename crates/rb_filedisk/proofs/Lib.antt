pub mod ByteLemmas
pub mod FaultLemmas
pub mod KeepLemmas
pub mod RangeLemmas
pub mod SyncLemmas
