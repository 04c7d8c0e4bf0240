use Rattle.std.proofs.Common.{◌≡◌, length, refl, rules}
use Rattle.bodies.proofs.Wholes.{six_bytes}
use Rattle.bodies.proofs.standings.read_standing.Goals as goal

pub returns-in-0-to-15 : goal.returns-in-0-to-15
returns-in-0-to-15 c =
    let six : length c.args.body.now ≡ 6 = search rules in
    (search rules, (refl, six_bytes c.args.body.now six))
