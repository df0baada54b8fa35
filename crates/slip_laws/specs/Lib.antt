-- What a packer reads on a slip.
pub mod Page
pub mod Slips
