mod OneBucket
mod AggregateReplies
mod RollUpReplies
mod CalendarReplies
