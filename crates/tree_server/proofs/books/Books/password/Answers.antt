use Rattle.tree_server.proofs.Passwords.{password_is}
use Rattle.tree_server.proofs.books.Books.password.Goals as goal

pub returns : goal.returns
returns c =
    password_is c.args.self.now.passwords c.copy_from_slice.new.self c.to_be_bytes.result c.encrypt.result c.args.session c.ranges.session
    c.to_be_bytes.ensures c.copy_from_slice.ensures.after c.encrypt.ensures
