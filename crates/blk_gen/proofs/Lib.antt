mod Filling
mod Said
mod Examples
mod Runs
