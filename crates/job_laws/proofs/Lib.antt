-- Lines has what the job program writes as lines; Digits and Bytes read the lines off the bytes again.
pub mod Lines
pub mod Digits
pub mod Bytes
