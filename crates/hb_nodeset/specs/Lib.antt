pub mod NodesFrom
