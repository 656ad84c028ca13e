pub mod Blockers
