-- The lines without a number in them are read as their statements, by computation.
use Rattle.std.proofs.Common.{◌≡◌, ℕ, List, refl, Ok}
use Rattle.stmt_reader.specs.Reading.{aggregate, aggregate_rest, aggregates, alias, equals_true, argument, bind, bucket, choose, column, create_rest, end, with_data, filters, fold_behind, fold_rest, form, group_by, hyper_rest, items, keys_and_function, list_parser, mode, more, not_null, number, offset, one, options, rows_rest, select_list, select_rest, semicolon, mode_setting, source, statement, table_rest, takes, view_rest, token_parser}
use Rattle.stmt_tokens.specs.Streams.{Stream, ends, stream}
use Rattle.stmt_syntax.specs.declared.statements.Stmt.{Stmt}
use Rattle.demo_script.specs.Demo.{aggregate_line, answer_line, hypertable_line, table_line}
use Rattle.demo_laws.specs.Statements.{stmt_of}
use Rattle.demo_script.specs.declared.lines.Line.TheVariants as lines

-- a line is read as a statement
pub record Reads (line : List ℕ) (s : Stmt) : Type 0 where
  pub left : Stream
  pub is : statement (stream line 2) ≡ Ok (s, left)

module _ (demo : ℕ) where
  pub table_reads : Reads table_line (stmt_of demo lines.Table)
  unfolding statement form bind takes choose one token_parser number more list_parser not_null column create_rest table_rest semicolon end stream table_line
  table_reads = record { left = ends 65; is = refl }

  pub hypertable_reads : Reads hypertable_line (stmt_of demo lines.Hypertable)
  unfolding statement form bind takes choose one token_parser number filters select_rest hyper_rest source rows_rest semicolon end stream hypertable_line
  hypertable_reads = record { left = ends 70; is = refl }

  pub aggregate_reads : Reads aggregate_line (stmt_of demo lines.Aggregate)
  unfolding statement form bind takes choose one token_parser number more list_parser alias equals_true aggregate aggregate_rest aggregates argument bucket fold_behind fold_rest group_by items keys_and_function mode offset options select_list mode_setting with_data filters create_rest view_rest source semicolon end stream aggregate_line
  aggregate_reads = record { left = ends 211; is = refl }

  pub answer_reads : Reads answer_line (stmt_of demo lines.Answer)
  unfolding statement form bind takes choose one token_parser number filters select_rest source rows_rest semicolon end stream answer_line
  answer_reads = record { left = ends 22; is = refl }
