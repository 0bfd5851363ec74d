mod Found
mod TypedRows
