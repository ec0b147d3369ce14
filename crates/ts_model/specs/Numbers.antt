-- The numbers of refusals, as replies print them: 7 is E07.
use Rattle.std.specs.Prelude.{ℕ}

-- an event isn't allowed next; no call creates one like it, and no reply prints this number
abbrev pub no_number : ℕ
no_number = 0

-- a line has over 65,536 bytes
abbrev pub line_long : ℕ
line_long = 1

-- a byte of 128 or more is before the comment of a line
abbrev pub not_ascii : ℕ
not_ascii = 2

-- a line has no session
abbrev pub no_session : ℕ
no_session = 3

-- no token begins at the place
abbrev pub no_token : ℕ
no_token = 4

-- the tokens up to the place begin no statement, or the statement isn't complete
abbrev pub syntax : ℕ
syntax = 5

-- no relation has the name
abbrev pub no_relation : ℕ
no_relation = 6

-- a relation, a column or an output has the name, or a table to be made a hypertable is one
abbrev pub name_taken : ℕ
name_taken = 7

-- no column of the relation has the name, or it isn't the required column
abbrev pub no_column : ℕ
no_column = 8

-- a time to be inserted or a bound lies outside the range of times
abbrev pub bad_time : ℕ
bad_time = 9

-- a number doesn't fit 64 bits
abbrev pub bad_number : ℕ
bad_number = 10

-- a row doesn't have one value per listed column
abbrev pub value_count : ℕ
value_count = 11

-- NULL in the time column or in a NOT NULL column, or the column list of an INSERT omits such a column
abbrev pub null_value : ℕ
null_value = 12

-- the relation exists and isn't a hypertable
abbrev pub not_hypertable : ℕ
not_hypertable = 13

-- a width, an offset or an interval is out of its range, or the buckets of an aggregate don't lie whole in those of a
-- roll-up over it
abbrev pub bad_width : ℕ
bad_width = 14

-- a window with a given end holds no whole bucket
abbrev pub no_bucket : ℕ
no_bucket = 15

-- the statement may not be in a write block
abbrev pub in_write_block : ℕ
in_write_block = 16

-- the statement may not be in a read block
abbrev pub in_read_block : ℕ
in_read_block = 17

-- there is no block to end
abbrev pub no_block : ℕ
no_block = 18

-- no refresh of this number is pending
abbrev pub no_refresh : ℕ
no_refresh = 19

-- the session holds no snapshot for the refresh
abbrev pub no_snapshot : ℕ
no_snapshot = 20

-- the limit is reached
abbrev pub too_many : ℕ
too_many = 21

-- the relation exists and isn't an aggregate
abbrev pub not_aggregate : ℕ
not_aggregate = 22

-- the session would be the 65th
abbrev pub too_many_sessions : ℕ
too_many_sessions = 23

-- the call would append an event, and the store has stopped
abbrev pub stopped : ℕ
stopped = 24

-- an image is too long
abbrev pub image_long : ℕ
image_long = 25

-- an offset or the interval of a policy is out of its range
abbrev pub bad_policy : ℕ
bad_policy = 26

-- the session would have its 65th policy
abbrev pub too_many_policies : ℕ
too_many_policies = 27

-- a function doesn't fit the column that it rolls up
abbrev pub bad_rollup : ℕ
bad_rollup = 28

-- a bucket of the calendar would have fewer than 1 or more than 1,200 units, or its unit isn't a day, a week, a month
-- or a year
abbrev pub bad_unit : ℕ
bad_unit = 29

-- the call would append an event, and the history is at its end
abbrev pub history_full : ℕ
history_full = 30
