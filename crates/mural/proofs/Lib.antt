mod Ends
mod Known
mod Lawful
mod Pieces
mod Serving
mod Valid
