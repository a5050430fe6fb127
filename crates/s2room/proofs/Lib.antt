mod Merging
mod Holders
mod Reaching
