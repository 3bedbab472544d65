mod Keeping
mod Talks
mod Branches
mod Ends
mod Calls
