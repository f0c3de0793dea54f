pub mod Queued
pub mod inner
