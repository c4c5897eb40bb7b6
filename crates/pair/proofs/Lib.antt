mod Kept
mod Builds
mod Trying
mod Playing
