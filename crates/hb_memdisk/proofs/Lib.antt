mod Patching
mod Taking
