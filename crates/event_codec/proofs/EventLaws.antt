-- Events are read exactly.
use Rattle.std.proofs.Common.{◌≡◌, ℕ, List, [], ◌∷◌, ◌++◌, refl, ap, ◌∙◌}
use Rattle.ts_model.specs.declared.events.Event.{Event}
use Rattle.ts_model.specs.declared.events.Event.TheVariants as events
use Rattle.event_codec.specs.declared.kinds.Kind.{Kind}
use Rattle.event_codec.specs.declared.kinds.Kind.TheVariants as kinds
use Rattle.event_codec.specs.Codes.{kind_code}
use Rattle.event_codec.specs.Formed.{Many, IsFour, IsEight, IsOp, IsSpan, IsTable, IsHyper, IsView, IsFormed}
use Rattle.event_codec.specs.Spelling.{four, eight, many, flag, op, table, hyper, view, span, event}
use Rattle.event_codec.specs.Reading.{pair, second, any_four, any_eight, many_of, coded_byte, flag_of, kind_of, op_at, table_at, hyper_at, view_at, span_at, to_hyper_event, to_mode, to_cut, to_built, event_body, event_at}
use Rattle.event_codec.proofs.Formats.{IsFormat, Source, pair_format, map_format}
use Rattle.event_codec.proofs.NumberLaws.{any_four_format, any_eight_format}
use Rattle.event_codec.proofs.Coded.{Any, flag_format, kind_format}
use Rattle.event_codec.proofs.Parts.{many_format, op_format, table_format, hyper_format, view_format, span_format}

-- the kind of an event
abbrev kind : Event → Kind
kind (events.Table def) = kinds.Table
kind (events.Hyper t h) = kinds.Hyper
kind (events.View def) = kinds.View
kind (events.Mode v only) = kinds.Mode
kind (events.Commit ops) = kinds.Commit
kind (events.Cut v s) = kinds.Cut
kind (events.Built cut snap) = kinds.Built

-- an event without its kind
abbrev rest : Event → List ℕ
rest (events.Table def) = table def
rest (events.Hyper t h) = four t ++ hyper h
rest (events.View def) = view def
rest (events.Mode v only) = four v ++ flag only
rest (events.Commit ops) = many op ops
rest (events.Cut v s) = four v ++ span s
rest (events.Built cut snap) = eight cut ++ eight snap

-- an event of a kind that has an encoding
abbrev IsOfKind : Kind → Event → Type 0
IsOfKind k e = (kind e ≡ k) × IsFormed e

table_body : IsFormat rest (IsOfKind kinds.Table) (event_body kinds.Table)
table_body = map_format events.Table table IsTable table_at rest (IsOfKind kinds.Table)
    table_format
    (record { there = λ def h. ((refl, h), refl); back = back })
  where
    back : (e : Event) → IsOfKind kinds.Table e → Source events.Table table IsTable rest e
    back (events.Table def) h = record { value = def; ok = h.1; same = refl; spelled = refl }
    back e h = absurd (let k = h.0 in cc)

hyper_body : IsFormat rest (IsOfKind kinds.Hyper) (event_body kinds.Hyper)
hyper_body = map_format to_hyper_event (λ x. four x.0 ++ hyper x.1) (λ x. IsFour x.0 × IsHyper x.1) (pair any_four (λ table. hyper_at)) rest (IsOfKind kinds.Hyper)
    (pair_format _ _ _ _ _ _ any_four_format (λ a h. hyper_format))
    (record { there = λ x h. ((refl, h), refl); back = back })
  where
    back : (e : Event) → IsOfKind kinds.Hyper e → Source to_hyper_event (λ x. four x.0 ++ hyper x.1) (λ x. IsFour x.0 × IsHyper x.1) rest e
    back (events.Hyper t y) h = record { value = (t, y); ok = h.1; same = refl; spelled = refl }
    back e h = absurd (let k = h.0 in cc)

view_body : IsFormat rest (IsOfKind kinds.View) (event_body kinds.View)
view_body = map_format events.View view IsView view_at rest (IsOfKind kinds.View)
    view_format
    (record { there = λ def h. ((refl, h), refl); back = back })
  where
    back : (e : Event) → IsOfKind kinds.View e → Source events.View view IsView rest e
    back (events.View def) h = record { value = def; ok = h.1; same = refl; spelled = refl }
    back e h = absurd (let k = h.0 in cc)

mode_body : IsFormat rest (IsOfKind kinds.Mode) (event_body kinds.Mode)
mode_body = map_format to_mode (λ x. four x.0 ++ flag x.1) (λ x. IsFour x.0 × Any x.1) (pair any_four (λ view. coded_byte flag_of)) rest (IsOfKind kinds.Mode)
    (pair_format _ _ _ _ _ _ any_four_format (λ a h. flag_format))
    (record { there = λ x h. ((refl, h.0), refl); back = back })
  where
    back : (e : Event) → IsOfKind kinds.Mode e → Source to_mode (λ x. four x.0 ++ flag x.1) (λ x. IsFour x.0 × Any x.1) rest e
    back (events.Mode v only) h = record { value = (v, only); ok = (h.1, tt); same = refl; spelled = refl }
    back e h = absurd (let k = h.0 in cc)

commit_body : IsFormat rest (IsOfKind kinds.Commit) (event_body kinds.Commit)
commit_body = map_format events.Commit (many op) (Many IsOp) (many_of op_at) rest (IsOfKind kinds.Commit)
    (many_format _ _ _ op_format)
    (record { there = λ ops h. ((refl, h), refl); back = back })
  where
    back : (e : Event) → IsOfKind kinds.Commit e → Source events.Commit (many op) (Many IsOp) rest e
    back (events.Commit ops) h = record { value = ops; ok = h.1; same = refl; spelled = refl }
    back e h = absurd (let k = h.0 in cc)

cut_body : IsFormat rest (IsOfKind kinds.Cut) (event_body kinds.Cut)
cut_body = map_format to_cut (λ x. four x.0 ++ span x.1) (λ x. IsFour x.0 × IsSpan x.1) (pair any_four (λ view. span_at)) rest (IsOfKind kinds.Cut)
    (pair_format _ _ _ _ _ _ any_four_format (λ a h. span_format))
    (record { there = λ x h. ((refl, h), refl); back = back })
  where
    back : (e : Event) → IsOfKind kinds.Cut e → Source to_cut (λ x. four x.0 ++ span x.1) (λ x. IsFour x.0 × IsSpan x.1) rest e
    back (events.Cut v s) h = record { value = (v, s); ok = h.1; same = refl; spelled = refl }
    back e h = absurd (let k = h.0 in cc)

built_body : IsFormat rest (IsOfKind kinds.Built) (event_body kinds.Built)
built_body = map_format to_built (λ x. eight x.0 ++ eight x.1) (λ x. IsEight x.0 × IsEight x.1) (pair any_eight (λ cut. any_eight)) rest (IsOfKind kinds.Built)
    (pair_format _ _ _ _ _ _ any_eight_format (λ a h. any_eight_format))
    (record { there = λ x h. ((refl, h), refl); back = back })
  where
    back : (e : Event) → IsOfKind kinds.Built e → Source to_built (λ x. eight x.0 ++ eight x.1) (λ x. IsEight x.0 × IsEight x.1) rest e
    back (events.Built cut snap) h = record { value = (cut, snap); ok = h.1; same = refl; spelled = refl }
    back e h = absurd (let k = h.0 in cc)

body_format : (k : Kind) → IsFormat rest (IsOfKind k) (event_body k)
body_format kinds.Table = table_body
body_format kinds.Hyper = hyper_body
body_format kinds.View = view_body
body_format kinds.Mode = mode_body
body_format kinds.Commit = commit_body
body_format kinds.Cut = cut_body
body_format kinds.Built = built_body

spelled : (e : Event) → event e ≡ (kind_code (kind e) ∷ []) ++ rest e
spelled (events.Table def) = refl
spelled (events.Hyper t h) = refl
spelled (events.View def) = refl
spelled (events.Mode v only) = refl
spelled (events.Commit ops) = refl
spelled (events.Cut v s) = refl
spelled (events.Built cut snap) = refl

pub event_format : IsFormat event IsFormed event_at
unfolding event_at
event_format = map_format second (λ x. (kind_code x.0 ∷ []) ++ rest x.1) (λ x. Any x.0 × IsOfKind x.0 x.1) (pair (coded_byte kind_of) event_body) event IsFormed
    (pair_format _ _ _ _ _ _ kind_format (λ k h. body_format k))
    (record {
      there = λ x h. (h.1.1, spelled x.1 ∙ ap (λ (k : Kind). (kind_code k ∷ []) ++ rest x.1) h.1.0);
      back = λ e h. record { value = (kind e, e); ok = (tt, (refl, h)); same = refl; spelled = spelled e };
    })
