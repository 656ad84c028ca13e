pub mod Toolbar
