-- What an act comes to, by its calls.
use Rattle.std.proofs.Common.{◌≡◌, ℕ, ◌+◌, true, List, [], ◌∷◌, ◌++◌, length, Option, Some, None, refl, sym, ap, ◌∙◌, subst}
use Rattle.std.specs.Prelude.{Result, Ok, Err}
use Rattle.rd_base.specs.History.{History, Entry, Row, is_well_formed}
use Rattle.rd_base.specs.Outside.{SinkTold, IsPrefixOf}
use Rattle.rd_base.specs.Sent.{sends_to}
use Rattle.rd_base.specs.declared.sends.Send.{Send}
use Rattle.rd_base.specs.declared.values.Link.{Link}
use Rattle.rd_base.specs.declared.values.Happening.{Happening}
use Rattle.rd_core.specs.Clocks.{entry_of}
use Rattle.rd_core.specs.Standing.{SendsMore}
use Rattle.rd_rules.specs.Exchange.{Rules}
use Rattle.rd_rules.specs.Sent.{agreed_rows, sent_past}
use Rattle.rd_rules.specs.Wanted.{wanted}
use Rattle.rd_token_map.specs.BookCalls.{BookCall}
use Rattle.rd_turn.specs.declared.log.LogEntry.{LogEntry}
use Rattle.rd_turn.specs.declared.log.Act.{Act}
use Rattle.rd_turn.specs.Sinks.{WroteUpTo}
use Rattle.rd_turn.specs.Books.{Lookup, LooksUp, Tells, rows_of, words_of, calls_of, told_calls}
use Rattle.rd_turn.specs.Acts.{Acts, Stays, failed_entry}
use Rattle.rd_turn.proofs.Asked.{calls_both, calls_none, nil_prefix, whole_prefix}
use Rattle.rd_turn.proofs.Turning.{told_follows}

-- wherever the session stood, it stands further on
abbrev pub StandsOn : Rules → Happening → List Row → (History → Type 0) → (History → Type 0) → Type 0
StandsOn r happening told at_old at_new = (h : History) → is_well_formed r.limits.copies (h ++ entry_of happening told ∷ []) ≡ true → at_old h → at_new (h ++ entry_of happening told ∷ [])

abbrev pub SendsOn : Rules → Happening → List Row → (History → Type 0) → List Send → Type 0
SendsOn r happening told at_old sends = (h : History) → is_well_formed r.limits.copies (h ++ entry_of happening told ∷ []) ≡ true → at_old h → SendsMore r h (entry_of happening told) sends

pub acted : {E F : Type 0} (r : Rules) (happening : Happening) (a : Act) (at_old at_new : History → Type 0) (book b1 b2 : Option (List BookCall)) (before after : List LogEntry) (told told' : List Row) (olds news : List SinkTold) (failed : Option Link)
    (n : ℕ) (given rows : List Row) (sends : List Send)
    (x : LooksUp {E = E} r at_old happening book b1 (Ok given)) (y : Tells {E = F} rows b1 b2 (Ok tt))
    → n ≡ r.limits.copies + 1
    → StandsOn r happening given at_old at_new
    → SendsOn r happening given at_old sends
    → ((h : History) → at_new h → rows ≡ agreed_rows r h)
    → ((f : ℕ → List ℕ) → sends ≡ sends_to n f → WroteUpTo failed f olds news)
    → after ≡ (before ++ record { at = happening.at; act = a; told = length given } ∷ []) ++ failed_entry happening.at failed
    → told' ≡ told ++ given
    → Acts r happening a at_old at_new book b2 before after told told' olds news failed
acted r happening a at_old at_new book b1 b2 before after told told' olds news failed n given rows sends x y count stands sent agreed wrote log keeps =
    let is : given ≡ rows_of x.found = x.rows in
    let stands' : StandsOn r happening (rows_of x.found) at_old at_new = subst (λ t. StandsOn r happening t at_old at_new) is stands in
    let sent' : SendsOn r happening (rows_of x.found) at_old sends = subst (λ t. SendsOn r happening t at_old sends) is sent in
    record {
      found = x.found;
      learnt = y.learnt;
      calls = calls_both book b1 b2 x.found y.learnt x.calls y.calls;
      log = log ∙ ap (λ t. (before ++ record { at = happening.at; act = a; told = length t } ∷ []) ++ failed_entry happening.at failed) is;
      rows = keeps ∙ ap (λ t. told ++ t) is;
      goes = λ h well at_h.
          let more = sent' h well at_h in
          record {
            stands = stands' h well at_h;
            adds = more.adds;
            wrote = wrote (sent_past r h (h ++ entry_of happening (rows_of x.found) ∷ [])) (subst (λ m. sends ≡ sends_to m (sent_past r h (h ++ entry_of happening (rows_of x.found) ∷ []))) (sym count) more.are);
            asks = (
              x.ok h (told_follows r.limits.copies [] h happening (rows_of x.found) [] well) at_h,
              y.ok ∙ agreed (h ++ entry_of happening (rows_of x.found) ∷ []) (stands' h well at_h),
            );
          };
    }

-- memory ran out before the step was taken
pub stays_early : {E : Type 0} (r : Rules) (happening : Happening) (at_old : History → Type 0) (book b1 : Option (List BookCall)) (before after : List LogEntry) (told : List Row) (sinks : List SinkTold) (result : Result (List Row) E)
    → LooksUp r at_old happening book b1 result → after ≡ before
    → Stays r happening at_old book b1 before after told told sinks sinks
stays_early r happening at_old book b1 before after told sinks (Ok given) x same = record {
  found = x.found;
  learnt = [];
  calls = x.calls;
  log = same;
  rows = refl;
  sinks = refl;
  begins = λ h well at_h. (whole_prefix _ _ (x.ok h (told_follows r.limits.copies [] h happening (rows_of x.found) [] well) at_h), nil_prefix _);
}
stays_early r happening at_old book b1 before after told sinks (Err e) x same = record {
  found = x.found;
  learnt = [];
  calls = x.calls;
  log = same;
  rows = refl;
  sinks = refl;
  begins = λ h well at_h. (x.err h (told_follows r.limits.copies [] h happening (rows_of x.found) [] well) at_h, nil_prefix _);
}

-- memory ran out behind the step
pub stays_late : {E F : Type 0} (r : Rules) (happening : Happening) (at_old at_new : History → Type 0) (book b1 b2 : Option (List BookCall)) (before after : List LogEntry) (told told' : List Row) (sinks : List SinkTold)
    (given rows : List Row) (result : Result (Unit {0}) F)
    (x : LooksUp {E = E} r at_old happening book b1 (Ok given)) (y : Tells rows b1 b2 result)
    → StandsOn r happening given at_old at_new
    → ((h : History) → at_new h → rows ≡ agreed_rows r h)
    → after ≡ before → told' ≡ told
    → Stays r happening at_old book b2 before after told told' sinks sinks
stays_late {F = F} r happening at_old at_new book b1 b2 before after told told' sinks given rows result x y stands agreed same keeps =
    let stands' : StandsOn r happening (rows_of x.found) at_old at_new = subst (λ t. StandsOn r happening t at_old at_new) x.rows stands in
    record {
      found = x.found;
      learnt = y.learnt;
      calls = calls_both book b1 b2 x.found y.learnt x.calls y.calls;
      log = same;
      rows = keeps;
      sinks = refl;
      begins = λ h well at_h. (
        whole_prefix _ _ (x.ok h (told_follows r.limits.copies [] h happening (rows_of x.found) [] well) at_h),
        subst (IsPrefixOf y.learnt) (agreed (h ++ entry_of happening (rows_of x.found) ∷ []) (stands' h well at_h)) (learnt_prefix rows b1 b2 result y),
      );
    }
  where
    learnt_prefix : (rows : List Row) (b1 b2 : Option (List BookCall)) (result : Result (Unit {0}) F) (y : Tells rows b1 b2 result) → IsPrefixOf y.learnt rows
    learnt_prefix rows b1 b2 (Ok t) y = whole_prefix _ _ y.ok
    learnt_prefix rows b1 b2 (Err e) y = y.err
