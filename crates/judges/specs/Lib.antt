pub mod Orders
pub mod CodeOrders
pub mod CodeSends
pub mod CodeCreates
pub mod CodeRulings
