pub mod FirstForeign
pub mod TextsGrow
