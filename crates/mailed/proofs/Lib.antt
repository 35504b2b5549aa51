pub mod Mailing
