-- Which clusters are a file's and live, and which are the host's.
pub mod Clusters
