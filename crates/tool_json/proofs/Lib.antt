pub mod MessagesCut
pub mod MessagesWhole
pub mod EntriesParted
