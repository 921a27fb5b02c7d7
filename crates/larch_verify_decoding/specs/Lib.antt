pub mod Postorder
