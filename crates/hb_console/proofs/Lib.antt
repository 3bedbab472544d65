mod Tellings
mod Origins
mod Ending
mod Commands
mod Leaving
