mod Examples
mod WithSheets
