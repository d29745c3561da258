mod Fronts
mod Unlisted
mod Walking
mod Stepping
mod Blocks
mod Keeping
mod Listing
mod Rising
