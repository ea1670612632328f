pub mod Situations
