use Rattle.std.proofs.Common.{◌≡◌, ◌+◌, List, [], ◌∷◌, ◌++◌, append_assoc, Some, refl, sym, ap, subst, ◌∙◌, rules, arith}
use Rattle.rd_doors.specs.declared.visit.Ends.{Ends}
use Rattle.rd_doors.specs.Visits.{Entry, Gave, AreFresh, ends_told}
use Rattle.rd_run_session.specs.declared.left.SessionLeft.{SessionLeft}
use Rattle.rd_serve.specs.Noting.{AreNoted, IsBegun}
use Rattle.rd_serve.specs.Serving.{Has}
use Rattle.rd_serve.proofs.Live.{live_few, live_begun, live_back, begun_holds, kept_on, kept_more}
use Rattle.rd_serve.proofs.Answering.{ticked, ticks_then}
use Rattle.rd_serve.proofs.Noting.{noted_begun, begun_next}
use Rattle.rd_serve.proofs.Outs.{waiting_holds, waiting_ended, waiting_begun}
use Rattle.rd_doors.specs.Visits.{run_told}
use Rattle.rd_runner.specs.Counts.{RunnerTold}
use Rattle.rd_lent_book.specs.Lending.{Lends, MovesWith}
use Rattle.rd_serve.specs.Booking.{AreBooked, KeepsBook, Lent, lents}
use Rattle.rd_serve.proofs.Booking.{are_lent, are_first, are_pushed, counted_book}
use Rattle.rd_serve.proofs.server.admit.Goals as goal

pub begin_session-begun-requires : goal.begin_session-begun-requires
begin_session-begun-requires g c =
    let few = live_few c.args.desk.now.ids c.args.sessions.now.items c.requires.live in
    let len = c.args.sessions.now.ok.0 in
    let count = c.requires.count in
    omega arith

-- ---- the session runs here

pub serve_here-requires-clause-out : goal.serve_here-requires-clause-out
serve_here-requires-clause-out g c κs within = waiting_holds g.E.Give.Source.tells g.E.Take.Sink.tells c.args.first.now.value.setup (g.E.Doors.tells c.args.doors.now) c.args.ends.number c.args.sessions.now.items c.requires.out

pub serve_here-requires-clause-live : goal.serve_here-requires-clause-live
serve_here-requires-clause-live g c κs within = begun_holds c.args.desk.now c.begin_session-begun.new.desk c.begin_session-begun.result.id c.begin_session-begun.ensures.begins

pub returns-in_default-clause-out : goal.returns-in_default-clause-out
returns-in_default-clause-out g c =
    waiting_ended g.E.Give.Source.tells g.E.Take.Sink.tells c.args.first.now.value.setup (g.E.Doors.tells c.args.doors.now) (g.E.Doors.tells c.serve_here.new.doors) c.args.ends.number c.args.sessions.now.items
    c.requires.out c.serve_here.ensures.out c.serve_here.ensures.keeps

pub returns-in_default-clause-live : goal.returns-in_default-clause-live
returns-in_default-clause-live g c = live_back c.args.desk.now c.begin_session-begun.new.desk c.begin_session-begun.result.id c.serve_here.new.desk.ids c.args.sessions.now.items c.requires.live c.begin_session-begun.ensures.begins c.serve_here.ensures.ids

pub returns-in_default-clause-notes : goal.returns-in_default-clause-notes
returns-in_default-clause-notes g c =
    ticks_then _ _ c.begin_session-begun.result.at (g.C.Clock.tells c.args.clock.now) (g.C.Clock.tells c.begin_session-begun.new.clock) (g.C.Clock.tells c.serve_here.new.clock) c.begin_session-begun.ensures.at
    (λ more back start asked keeper count kept next. record {
      count = count + 1;
      kept = kept_on g.E.Give.Source.tells g.E.Take.Sink.tells start c.args.first.now.value.setup (g.E.Doors.tells c.args.doors.now) (g.E.Doors.tells c.serve_here.new.doors) asked (c.begin_session-begun.result.at ∷ more) c.args.desk.now c.serve_here.new.desk keeper keeper count (count + 1) 1 0 c.args.sessions.now.items c.serve_here.ensures.keeps
          (subst (λ l. AreNoted start c.args.first.now.value.setup (g.E.Doors.tells c.serve_here.new.doors) l c.serve_here.new.desk keeper (count + 1) 0) (append_assoc asked (c.begin_session-begun.result.at ∷ []) more)
          (back start (asked ++ c.begin_session-begun.result.at ∷ []) keeper (count + 1) 0
          (noted_begun start c.args.first.now.value.setup (g.E.Doors.tells c.args.doors.now) asked (c.begin_session-begun.result.at ∷ []) c.args.desk.now c.begin_session-begun.new.desk c.begin_session-begun.result.id keeper count c.begin_session-begun.ensures.begins c.begin_session-begun.ensures.notes kept.noted)
          (begun_next start c.args.first.now.value.setup (g.E.Doors.tells c.args.doors.now) asked c.args.desk.now c.begin_session-begun.new.desk c.begin_session-begun.result keeper count c.args.side (ends_told g.E.Give.Source.tells g.E.Take.Sink.tells c.args.ends) c.begin_session-begun.ensures.begins kept.noted next))) kept;
    })
    c.serve_here.ensures.notes

-- ---- no thread could be made

pub give_back-requires-clause-out : goal.give_back-requires-clause-out
give_back-requires-clause-out g c κs within = waiting_holds g.E.Give.Source.tells g.E.Take.Sink.tells c.args.first.now.value.setup (g.E.Doors.tells c.args.doors.now) c.args.ends.number c.args.sessions.now.items c.requires.out

pub give_back-requires-clause-live : goal.give_back-requires-clause-live
give_back-requires-clause-live g c κs within = begun_holds c.args.desk.now c.begin_session-begun.new.desk c.begin_session-begun.result.id c.begin_session-begun.ensures.begins

pub give_back-requires-clause-given : goal.give_back-requires-clause-given
give_back-requires-clause-given g c κs within =
    let was : c.of-handed.result.value ≡ c.args.ends = c.of-handed.ensures in
    subst (λ (e : Ends g.row.E-Give.Denot g.row.E-Take.Denot). (told : List (Entry (SessionLeft g.row.R.Denot))) → (g.E.Doors.tells c.args.doors.now).told ≡ Some told → Has (Gave c.args.side (ends_told g.E.Give.Source.tells g.E.Take.Sink.tells e)) told) (sym was) c.requires.given

pub returns-in-Err-clause-out : goal.returns-in-Err-clause-out
returns-in-Err-clause-out g c =
    waiting_ended g.E.Give.Source.tells g.E.Take.Sink.tells c.args.first.now.value.setup (g.E.Doors.tells c.args.doors.now) (g.E.Doors.tells c.give_back.new.doors) c.args.ends.number c.args.sessions.now.items
    c.requires.out c.give_back.ensures.out c.give_back.ensures.keeps

pub returns-in-Err-clause-live : goal.returns-in-Err-clause-live
returns-in-Err-clause-live g c = live_back c.args.desk.now c.begin_session-begun.new.desk c.begin_session-begun.result.id c.give_back.new.desk.ids c.args.sessions.now.items c.requires.live c.begin_session-begun.ensures.begins c.give_back.ensures.ids

pub returns-in-Err-clause-notes : goal.returns-in-Err-clause-notes
returns-in-Err-clause-notes g c =
    let was : c.of-handed.result.value ≡ c.args.ends = c.of-handed.ensures in
    ticks_then _ _ c.begin_session-begun.result.at (g.C.Clock.tells c.args.clock.now) (g.C.Clock.tells c.begin_session-begun.new.clock) (g.C.Clock.tells c.give_back.new.clock) c.begin_session-begun.ensures.at
    (λ more back start asked keeper count kept next. record {
      count = count + 1;
      kept = kept_on g.E.Give.Source.tells g.E.Take.Sink.tells start c.args.first.now.value.setup (g.E.Doors.tells c.args.doors.now) (g.E.Doors.tells c.give_back.new.doors) asked (c.begin_session-begun.result.at ∷ more) c.args.desk.now c.give_back.new.desk keeper keeper count (count + 1) 1 0 c.args.sessions.now.items c.give_back.ensures.keeps
          (subst (λ l. AreNoted start c.args.first.now.value.setup (g.E.Doors.tells c.give_back.new.doors) l c.give_back.new.desk keeper (count + 1) 0) (append_assoc asked (c.begin_session-begun.result.at ∷ []) more)
          (back start (asked ++ c.begin_session-begun.result.at ∷ []) keeper (count + 1) 0
          (noted_begun start c.args.first.now.value.setup (g.E.Doors.tells c.args.doors.now) asked (c.begin_session-begun.result.at ∷ []) c.args.desk.now c.begin_session-begun.new.desk c.begin_session-begun.result.id keeper count c.begin_session-begun.ensures.begins c.begin_session-begun.ensures.notes kept.noted)
          (subst (λ (e : Ends g.row.E-Give.Denot g.row.E-Take.Denot). IsBegun start (g.E.Doors.tells c.args.doors.now) (asked ++ c.begin_session-begun.result.at ∷ []) c.begin_session-begun.result c.args.side (ends_told g.E.Give.Source.tells g.E.Take.Sink.tells e)) (sym was)
          (begun_next start c.args.first.now.value.setup (g.E.Doors.tells c.args.doors.now) asked c.args.desk.now c.begin_session-begun.new.desk c.begin_session-begun.result keeper count c.args.side (ends_told g.E.Give.Source.tells g.E.Take.Sink.tells c.args.ends) c.begin_session-begun.ensures.begins kept.noted next)))) kept;
    })
    c.give_back.ensures.notes

-- ---- it has a thread of its own

pub returns-in-Ok-clause-out : goal.returns-in-Ok-clause-out
returns-in-Ok-clause-out g c =
    let was : c.of-handed.result.value ≡ c.args.ends = c.of-handed.ensures in
    waiting_begun g.E.Give.Source.tells g.E.Take.Sink.tells c.args.first.now.value.setup (g.E.Doors.tells c.args.doors.now) c.args.ends.number c.args.sessions.now.items c.push_reserved-in-Ok.new.self.items _
    c.requires.out
    (record {
      held_to = (let is = c.in-Ok.ensures.runner in search rules);
      side = c.in-Ok.ensures.side;
      ends = c.in-Ok.ensures.ends ∙ sym was;
      number = ap (λ (e : Ends g.row.E-Give.Denot g.row.E-Take.Denot). e.number) was;
      fresh = subst (λ (e : Ends g.row.E-Give.Denot g.row.E-Take.Denot). AreFresh c.args.first.now.value.setup.limits.copies (ends_told g.E.Give.Source.tells g.E.Take.Sink.tells e)) (sym was) c.requires.fresh;
      given = subst (λ (e : Ends g.row.E-Give.Denot g.row.E-Take.Denot). (told : List (Entry (SessionLeft g.row.R.Denot))) → (g.E.Doors.tells c.args.doors.now).told ≡ Some told → Has (Gave c.args.side (ends_told g.E.Give.Source.tells g.E.Take.Sink.tells e)) told) (sym was) c.requires.given;
    })
    refl c.push_reserved-in-Ok.ensures.items

pub returns-in-Ok-clause-live : goal.returns-in-Ok-clause-live
returns-in-Ok-clause-live g c =
    live_begun c.args.desk.now c.begin_session-begun.new.desk c.begin_session-begun.result c.args.sessions.now.items c.push_reserved-in-Ok.new.self.items _ c.requires.live c.begin_session-begun.ensures.begins c.begin_session-begun.ensures.range refl c.push_reserved-in-Ok.ensures.items

pub returns-in-Ok-clause-notes : goal.returns-in-Ok-clause-notes
returns-in-Ok-clause-notes g c =
    let was : c.of-handed.result.value ≡ c.args.ends = c.of-handed.ensures in
    ticked _ c.begin_session-begun.result.at (g.C.Clock.tells c.args.clock.now) (g.C.Clock.tells c.begin_session-begun.new.clock) c.begin_session-begun.ensures.at
    (λ start asked keeper count kept next. record {
      count = count + 1;
      kept = kept_more g.E.Give.Source.tells g.E.Take.Sink.tells start c.args.first.now.value.setup (g.E.Doors.tells c.args.doors.now) asked (c.begin_session-begun.result.at ∷ []) c.args.desk.now c.begin_session-begun.new.desk keeper count (count + 1) 1 0 c.args.sessions.now.items c.push_reserved-in-Ok.new.self.items _
          c.push_reserved-in-Ok.ensures.items
          (subst (λ (e : Ends g.row.E-Give.Denot g.row.E-Take.Denot). IsBegun start (g.E.Doors.tells c.args.doors.now) (asked ++ c.begin_session-begun.result.at ∷ []) c.begin_session-begun.result c.args.side (ends_told g.E.Give.Source.tells g.E.Take.Sink.tells e)) (sym was)
          (begun_next start c.args.first.now.value.setup (g.E.Doors.tells c.args.doors.now) asked c.args.desk.now c.begin_session-begun.new.desk c.begin_session-begun.result keeper count c.args.side (ends_told g.E.Give.Source.tells g.E.Take.Sink.tells c.args.ends) c.begin_session-begun.ensures.begins kept.noted next))
          (noted_begun start c.args.first.now.value.setup (g.E.Doors.tells c.args.doors.now) asked (c.begin_session-begun.result.at ∷ []) c.args.desk.now c.begin_session-begun.new.desk c.begin_session-begun.result.id keeper count c.begin_session-begun.ensures.begins c.begin_session-begun.ensures.notes kept.noted) kept;
    })

-- ---- its book

pub returns-in_default-clause-books : goal.returns-in_default-clause-books
returns-in_default-clause-books g c =
    c.serve_here.ensures.books (lents g.E.Give.Source.tells g.E.Take.Sink.tells c.args.sessions.now.items)
    (subst (λ (r : RunnerTold). AreBooked g.row.E-Give.Denot c.args.first.now.value.setup c.args.first.now.value.book (g.E.Doors.tells c.args.doors.now) r.book (lents g.E.Give.Source.tells g.E.Take.Sink.tells c.args.sessions.now.items)) (sym c.in_default.ensures.none) c.requires.books)

pub returns-in-Err-clause-books : goal.returns-in-Err-clause-books
returns-in-Err-clause-books g c =
    let was : c.of-handed.result.value ≡ c.args.ends = c.of-handed.ensures in
    let theirs = c.in-Some.theirs in
    let served = c.in-Err.served in
    let ss = lents g.E.Give.Source.tells g.E.Take.Sink.tells c.args.sessions.now.items in
    let lent : Lent = record { side = c.args.side; ends = ends_told g.E.Give.Source.tells g.E.Take.Sink.tells c.of-handed.result.value; book = theirs.book } in
    let setup : theirs.setup ≡ c.args.first.now.value.setup = c.in-Some.ensures.other.setup ∙ c.requires.counts.setup in
    let keeps = subst (λ (e : Ends g.row.E-Give.Denot g.row.E-Take.Denot). KeepsBook g.row.E-Give.Denot c.args.first.now.value.setup c.args.side (ends_told g.E.Give.Source.tells g.E.Take.Sink.tells e) (run_told g.E.Give.Source.tells g.E.Take.Sink.tells e.number served.ended.run served.ended.sinks.items) theirs.book served.runner.book) (sym was)
    (subst (λ u. KeepsBook g.row.E-Give.Denot u c.args.side (ends_told g.E.Give.Source.tells g.E.Take.Sink.tells c.args.ends) (run_told g.E.Give.Source.tells g.E.Take.Sink.tells c.args.ends.number served.ended.run served.ended.sinks.items) theirs.book served.runner.book) setup c.in-Err.ensures.here.1) in
    c.give_back.ensures.books theirs.book ss keeps
    (are_first g.row.E-Give.Denot c.args.first.now.value.setup c.args.first.now.value.book (g.E.Doors.tells c.args.doors.now) c.lend.new.runner.book lent ss
    (are_lent g.row.E-Give.Denot c.args.first.now.value.setup c.args.first.now.value.book (g.E.Doors.tells c.args.doors.now) c.args.runner.now.book c.lend.new.runner.book lent ss (subst (λ (e : Ends g.row.E-Give.Denot g.row.E-Take.Denot). (told : List (Entry (SessionLeft g.row.R.Denot))) → (g.E.Doors.tells c.args.doors.now).told ≡ Some told → Has (Gave c.args.side (ends_told g.E.Give.Source.tells g.E.Take.Sink.tells e)) told) (sym was) c.requires.given) c.in-Some.ensures.lent c.requires.books))

pub returns-in-Ok-clause-books : goal.returns-in-Ok-clause-books
returns-in-Ok-clause-books g c =
    let was : c.of-handed.result.value ≡ c.args.ends = c.of-handed.ensures in
    let ss = lents g.E.Give.Source.tells g.E.Take.Sink.tells c.args.sessions.now.items in
    let lent : Lent = record { side = c.args.side; ends = ends_told g.E.Give.Source.tells g.E.Take.Sink.tells c.of-handed.result.value; book = c.in-Ok.handle.promise.runner.value.book } in
    are_pushed g.row.E-Give.Denot c.args.first.now.value.setup (λ x. record { side = x.side; ends = ends_told g.E.Give.Source.tells g.E.Take.Sink.tells x.ends.value; book = x.handle.promise.runner.value.book }) c.args.first.now.value.book (g.E.Doors.tells c.args.doors.now) c.lend.new.runner.book c.args.sessions.now.items c.push_reserved-in-Ok.new.self.items _
    c.push_reserved-in-Ok.ensures.items
    (are_lent g.row.E-Give.Denot c.args.first.now.value.setup c.args.first.now.value.book (g.E.Doors.tells c.args.doors.now) c.args.runner.now.book c.lend.new.runner.book lent ss (subst (λ (e : Ends g.row.E-Give.Denot g.row.E-Take.Denot). (told : List (Entry (SessionLeft g.row.R.Denot))) → (g.E.Doors.tells c.args.doors.now).told ≡ Some told → Has (Gave c.args.side (ends_told g.E.Give.Source.tells g.E.Take.Sink.tells e)) told) (sym was) c.requires.given)
    (subst (λ (r : RunnerTold). MovesWith Lends c.args.runner.now.book r.book c.lend.new.runner.book) (sym c.in-Ok.ensures.runner) c.in-Some.ensures.lent) c.requires.books)

-- ---- counts stay, whatever was lent

pub serve_here-requires-clause-counts : goal.serve_here-requires-clause-counts
serve_here-requires-clause-counts g c κs within = counted_book c.args.first.now.value c.args.runner.now c.lend.new.runner (g.E.Doors.tells c.args.doors.now) c.lend.ensures.same c.requires.counts

pub give_back-requires-clause-counts : goal.give_back-requires-clause-counts
give_back-requires-clause-counts g c κs within = counted_book c.args.first.now.value c.args.runner.now c.lend.new.runner (g.E.Doors.tells c.args.doors.now) c.lend.ensures.same c.requires.counts

pub returns-in-Ok-clause-counts : goal.returns-in-Ok-clause-counts
returns-in-Ok-clause-counts g c = counted_book c.args.first.now.value c.args.runner.now c.lend.new.runner (g.E.Doors.tells c.args.doors.now) c.lend.ensures.same c.requires.counts
