-- Lemmas on what is read and written in parts.
mod Parts
mod Failing
