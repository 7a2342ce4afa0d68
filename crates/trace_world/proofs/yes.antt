pub mod RightExports
