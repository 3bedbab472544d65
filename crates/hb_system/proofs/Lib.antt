mod Begins
mod FreshFront
mod FreshServer
mod Giving
mod Making
mod Opened
mod Zips
