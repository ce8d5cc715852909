-- What the lines of a recording go on from.
pub mod Steps
pub mod StepLaws
