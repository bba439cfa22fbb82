pub mod GrammarLaws
pub mod NumberLaws
pub mod RatesLaws
pub mod ReadLaws
