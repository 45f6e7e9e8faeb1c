pub mod Widgets
pub mod WidgetLaws
