mod Calling
mod Rooms
