pub mod Trees
pub mod Wishes
pub mod Places
pub mod Tables
pub mod Filling
pub mod Laying
pub mod Ready
