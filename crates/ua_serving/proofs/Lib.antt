mod Ends
mod Lives
mod Serves
mod Standards
mod Storing
