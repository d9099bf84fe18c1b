pub mod Words
mod KeepLemmas
pub mod StoresLemmas
mod SwitchLemmas
mod CallLemmas
mod DispatchLemmas
mod LoadLemmas
mod OwedLemmas
mod RecoveryLemmas
mod ResumeLemmas
mod ReloadLemmas
mod GroupLemmas
mod RecoveryRefused
mod BelongsLemmas
mod TieLemmas
