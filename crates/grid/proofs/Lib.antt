pub mod FrequencyLaws
pub mod Cases
