pub mod PageLaws
pub mod WrittenPages
pub mod SiteColumns
pub mod ExamplePage
pub mod PagesLaws
