pub mod PastTheEnd
